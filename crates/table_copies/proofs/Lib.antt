-- Tables put in order.
pub mod Ordering
