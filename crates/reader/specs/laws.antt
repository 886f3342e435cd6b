-- Laws of the reading, for the theorems, the proofs, and those who build on them.
pub mod Parts
pub mod Early
pub mod Passed
pub mod Tables
pub mod Meant
pub mod Found
