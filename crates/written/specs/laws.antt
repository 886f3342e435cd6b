-- Laws of the definitions, for the proofs here and for those who build on them.
pub mod Put
