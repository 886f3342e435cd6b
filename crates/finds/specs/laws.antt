-- Laws of the definitions, for the theorems, the proofs, and those who build on them.
pub mod Swaps
pub mod Cites
pub mod Lookups
pub mod Ids
pub mod Bases
