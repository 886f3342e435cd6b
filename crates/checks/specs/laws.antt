-- Laws of the definitions, for the proofs and those who build on them.
pub mod Ids
pub mod Given
pub mod Listed
pub mod Met
pub mod Told
