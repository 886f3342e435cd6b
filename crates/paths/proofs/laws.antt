-- What the theorems, the proofs and other crates cite.
pub mod Along
pub mod Best
pub mod Bound
pub mod Cert
pub mod Reach
pub mod Table
pub mod Traced
