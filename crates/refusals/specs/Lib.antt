-- The refusals by name and by number.
pub mod Refusals
