-- What the proofs of several functions use.
mod Coded
pub mod laws
pub mod Examples
pub mod Theorems
