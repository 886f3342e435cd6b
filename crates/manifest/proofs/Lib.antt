-- What is proved over the definitions of `manifest`.
pub mod laws
pub mod Examples
pub mod Theorems
