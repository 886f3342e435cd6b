-- What is proved over the definitions of `joins`.
pub mod laws
pub mod Ends
pub mod Theorems
