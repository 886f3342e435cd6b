-- What the contracts of `numbers` cite. In reading order.
pub mod Numbers
pub mod Theorems
