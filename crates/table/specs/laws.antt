-- Laws of the definitions, for the proofs and those who build on them.
pub mod Some
pub mod Heads
pub mod Names
pub mod Lines
pub mod Looking
pub mod Types
