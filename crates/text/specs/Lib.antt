-- The bytes of a JSON text (RFC 8259) in UTF-8 (RFC 3629): classes, strings, numbers, literals. In reading order.
pub mod Reading
pub mod Class
pub mod Strings
pub mod Raw
pub mod Escapes
pub mod Numbers
pub mod Examples
pub mod Theorems
pub mod laws
