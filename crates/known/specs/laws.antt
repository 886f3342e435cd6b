-- Laws for the proofs.
pub mod Numbers
pub mod Drawn
pub mod Verdicts
