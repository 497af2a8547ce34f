-- Tables in order, and how one comes about.
pub mod Ordered
