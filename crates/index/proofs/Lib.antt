-- Laws that the proofs of the functions use.
pub mod Texts
pub mod laws
pub mod Examples
pub mod Theorems
