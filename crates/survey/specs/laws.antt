-- Laws of the survey, for the proofs and those who build on them.
pub mod Bare
pub mod Sole
pub mod Walked
