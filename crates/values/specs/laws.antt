-- Laws of the definitions, for the theorems, the proofs, and those who build on them.
pub mod Outs
pub mod Compared
pub mod Ordinary
pub mod Rest
pub mod Ends
pub mod Alike
pub mod Raws
pub mod Shapes
pub mod Standing
pub mod Fronts
pub mod Ascii
