-- Laws of the definitions, for the proofs here and for those who build on them.
pub mod Peek
pub mod Class
pub mod Bytes
pub mod ClassTable
pub mod Marks
pub mod Plain
pub mod Readers
pub mod Runs
pub mod Words
pub mod Numbers
pub mod Stepwise
pub mod Characters
pub mod Strings
pub mod Utf8
pub mod Raw
pub mod Escapes
