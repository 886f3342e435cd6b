-- What several functions' proofs share.
pub mod Digits
pub mod Parts
pub mod laws
pub mod Examples
pub mod Theorems
