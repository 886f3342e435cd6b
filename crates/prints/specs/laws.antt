-- Laws of the definitions, for the theorems, the proofs, and those who build on them.
pub mod Empty
pub mod Fronts
pub mod Prints
pub mod Walks
pub mod Tables
