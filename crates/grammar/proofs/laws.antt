-- Laws of the definitions, for the theorems, the proofs here and those who build on them.
pub mod Bounded
pub mod Bytes
pub mod Clean
pub mod Complete
pub mod Deep
pub mod Firm
pub mod Forward
pub mod Levels
pub mod Local
pub mod Names
pub mod Order
pub mod Scalars
pub mod Steps
