-- The index is made from the text: its definition is that of `index`. In reading order.
pub mod laws
