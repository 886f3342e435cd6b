-- What the theorems are proved by.
pub mod Checks
pub mod Clocks
pub mod Counts
pub mod Entries
pub mod Events
pub mod Ids
pub mod Items
pub mod Lists
pub mod Said
pub mod Sheets
pub mod Together
pub mod Values
