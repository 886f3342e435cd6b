-- Laws that only the proofs of this crate's functions use.
pub mod Rows
pub mod Standing
pub mod Walking
