-- Laws that only the proofs of this crate's functions use, and that a result is told as one only.
pub mod Again
pub mod Printing
pub mod Keying
pub mod Placed
pub mod Final
pub mod Told
