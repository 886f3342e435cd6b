-- The table of known members by the numbers of its lines, and the JSON type of a value by a number. In reading order.
pub mod Table
pub mod Theorems
pub mod laws
