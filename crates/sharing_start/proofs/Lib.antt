-- The first bench, found by one search after another.
pub mod Starting
