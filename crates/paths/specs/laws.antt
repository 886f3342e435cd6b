-- What the theorems, the proofs and other crates cite.
pub mod Least
pub mod Graph
pub mod Search
