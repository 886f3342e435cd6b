-- Laws of the definitions, for the theorems, the proofs, and those who build on them.
pub mod Meant
pub mod Once
