-- What reading a manifest leaves. In reading order.
pub mod Reader
pub mod Theorems
pub mod laws
