-- Laws of the definitions, for the proofs and those who build on them.
pub mod Offsets
pub mod Order
pub mod Rule19
pub mod Rule24
