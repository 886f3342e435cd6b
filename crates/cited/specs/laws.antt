-- Laws of the definitions, for the proofs and those who build on them.
pub mod Cells
pub mod Within
pub mod Files
pub mod Declared
pub mod Rule20
pub mod Rule21
pub mod Apart
pub mod Clocks
