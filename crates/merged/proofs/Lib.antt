-- What is proved over the definitions of `merged`.
pub mod laws
pub mod Demands
pub mod Examples
pub mod Told
