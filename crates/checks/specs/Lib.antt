-- What is known of files and sources as a table of numbers; 32 to 37 and the machines over it. In reading order.
pub mod Table
pub mod Machines
pub mod laws
