-- Laws of the definitions, for the theorems and those who build on them.
pub mod Declared
pub mod Links
pub mod Listings
pub mod Offsets
pub mod Owners
pub mod Parts
pub mod Traced
