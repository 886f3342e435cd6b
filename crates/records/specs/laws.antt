-- Laws of records for theorems, proofs and other crates.
pub mod Fields
pub mod Ends
pub mod States
pub mod Steps
pub mod Longer
