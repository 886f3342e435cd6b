-- What is proved over the definitions of `named`.
pub mod laws
pub mod Theorems
