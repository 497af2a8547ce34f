-- Tables in order.
pub mod InOrder
