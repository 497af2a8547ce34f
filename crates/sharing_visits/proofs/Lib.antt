-- What visits mark, and why they end.
pub mod Visiting
