-- Laws of the definitions, for the theorems, the proofs, and those who build on them.
pub mod Back
pub mod Entries
pub mod Firsts
pub mod Many
pub mod Paths
pub mod Positive
pub mod Put
pub mod Rows
pub mod Seen
