-- Laws that the functions' proofs use.
pub mod Table
pub mod Told
pub mod Quick
pub mod Coded
pub mod Hexes
pub mod Ends
pub mod Leads
pub mod SeveralBytes
pub mod Widths
