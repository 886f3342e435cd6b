-- Laws for the proofs: what the walk finds, zeros from a place on, what an index holds.
pub mod Walked
pub mod Blank
pub mod Held
