-- Laws of the definitions, for the theorems, the proofs, and those who build on them.
pub mod Texts
pub mod Firsts
pub mod Kept
pub mod Held
pub mod Filled
