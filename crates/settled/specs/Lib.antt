-- What is settled of what was told. In reading order.
pub mod Settled
pub mod laws
