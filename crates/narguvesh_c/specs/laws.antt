-- The counts of an accepted sheet. In reading order.
pub mod Counts
