-- Laws for the proofs.
pub mod Fits
pub mod Endings
