-- What is proved over the definitions of `marked`.
pub mod laws
pub mod Marked
pub mod ShutOut
