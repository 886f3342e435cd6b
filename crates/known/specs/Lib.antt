-- What a manifest and a sheet say together. In reading order.
pub mod Known
pub mod Theorems
pub mod laws
