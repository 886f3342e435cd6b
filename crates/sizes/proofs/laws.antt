-- How 10 comes apart into paths, names and counts, and what 13 is told.
pub mod Told
