-- Laws that only the proofs of this crate's functions use, and that a result is told as one only.
pub mod Takes
pub mod Steps
pub mod Told
