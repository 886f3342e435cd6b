-- The members of the object at a position, and the items of the array at a position. In reading order.
pub mod Places
pub mod Visits
pub mod Theorems
pub mod Examples
pub mod laws
