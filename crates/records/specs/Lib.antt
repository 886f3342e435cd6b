-- The records of a sheet: how they lie in the bits; what 26 to 30 are; a step over one record on every input; what is read at any bit position.
-- Then what that means, worked examples, and laws for proofs and other crates.
pub mod Layout
pub mod Faults
pub mod States
pub mod Readers
pub mod Theorems
pub mod Examples
pub mod laws
