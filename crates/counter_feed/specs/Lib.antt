-- The counter program on slices.
pub mod Feeding
