-- Laws for the theorems.
pub mod Alike
pub mod Arrays
pub mod Numbered
pub mod Owned
pub mod Shapes
