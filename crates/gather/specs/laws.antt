-- Laws of the table, for its theorem, the proofs of the functions and other crates.
pub mod Listings
pub mod Near
pub mod Rows
pub mod Codes
pub mod Lists
pub mod Held
pub mod Said
