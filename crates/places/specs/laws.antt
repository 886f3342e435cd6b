-- Laws of the definitions, for the theorems, the proofs, and those who build on them.
pub mod Tally
pub mod Paired
pub mod Standing
pub mod Parts
