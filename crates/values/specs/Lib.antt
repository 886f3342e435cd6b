-- Questions about the value that stands at a position of a text: its kind, its text, its integer. In reading order.
pub mod Stands
pub mod Strings
pub mod Integer
pub mod Theorems
pub mod Examples
pub mod laws
