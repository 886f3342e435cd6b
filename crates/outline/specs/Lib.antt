-- What the text of a manifest says of 2, 5, 6 and 7, and of clocks' names, by positions. In reading order.
pub mod Outline
pub mod Statements
pub mod Theorems
pub mod Examples
pub mod laws
