-- What is proved over the definitions of `placed`.
pub mod Told
