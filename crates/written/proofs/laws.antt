-- Laws of the definitions, for the proofs here and for those who build on them.
pub mod Decimal
pub mod Room
pub mod Signed
pub mod Told
