-- Paths flipped one after the other.
pub mod Flipping
