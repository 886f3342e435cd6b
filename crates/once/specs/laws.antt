-- What the functions promise of each other, by entry and item; how 15 comes apart into paths and ids.
pub mod Parts
