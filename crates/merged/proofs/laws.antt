-- Laws of the definitions, for the theorems and the proofs.
pub mod Lists
pub mod Shape
pub mod Sheets
