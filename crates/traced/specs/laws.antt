-- Laws for the proofs.
pub mod Files
