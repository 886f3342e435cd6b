-- The merge. In reading order.
pub mod Memories
pub mod laws
