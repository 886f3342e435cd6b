-- Laws that the proofs of the functions use.
pub mod Steps
pub mod laws
pub mod Theorems
