-- What is proved over the definitions of `cited`.
pub mod laws
