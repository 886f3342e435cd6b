-- A sheet: the lists of its records by kind; 31; the sheet as its records or its refusal; where the records lie.
-- Then what that means, what a caller gets, worked examples, and laws for proofs and other crates.
pub mod Lists
pub mod Twice
pub mod Sheets
pub mod Places
pub mod Meaning
pub mod Theorems
pub mod Accepted
pub mod Examples
pub mod laws
