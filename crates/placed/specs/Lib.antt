-- Each event's answer in lent memory. In reading order.
pub mod Placed
pub mod Told
pub mod laws
