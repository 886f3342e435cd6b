-- What is answered by the tables. In reading order.
pub mod Answered
pub mod laws
