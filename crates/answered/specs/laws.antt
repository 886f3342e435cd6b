-- Laws for the proofs.
pub mod Copies
pub mod Fronts
pub mod Marks
