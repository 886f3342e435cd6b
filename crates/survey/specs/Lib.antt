-- Refusals 1 to 9, and the index, of a manifest's bytes. In reading order.
pub mod Survey
pub mod laws
