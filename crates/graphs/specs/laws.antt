-- What the theorems, the proofs and other crates cite.
pub mod Links
pub mod Same
pub mod Matrix
pub mod Shape
pub mod Added
pub mod Guesses
pub mod Marked
