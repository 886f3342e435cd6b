-- The bits of a slice: what a field, a taken field and a reading are; what that means; worked examples; laws for proofs and other crates.
pub mod Bits
pub mod BigEndian
pub mod Theorems
pub mod Examples
pub mod laws
