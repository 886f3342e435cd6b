-- Laws of the definitions, for the proofs and those who build on them.
pub mod Listed
pub mod Lists
pub mod Written
pub mod Tables
pub mod Sheets
