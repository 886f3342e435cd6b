-- Laws that only the proofs of functions cite.
pub mod Patterns
pub mod Found
pub mod laws
pub mod Examples
pub mod Theorems
