-- Laws that only the proofs of this crate's functions use.
pub mod Ends
pub mod Going
pub mod Stepping
pub mod Walking
pub mod Objects
pub mod Arrays
pub mod Known
pub mod Items
pub mod Holding
pub mod Entries
pub mod Blocks
pub mod Manifests
pub mod Steps
