-- Laws of the definitions, for the theorems, the proofs, and those who build on them.
pub mod Start
pub mod Roots
pub mod Versions
pub mod Names
