-- What is proved over the definitions of `exact`.
pub mod laws
pub mod Exact
