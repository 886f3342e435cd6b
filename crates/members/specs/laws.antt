-- Laws of the definitions, for the theorems, the proofs, and those who build on them.
pub mod Flaw
pub mod Walked
pub mod Passed
pub mod Judged
pub mod Lines
pub mod Lacking
