-- What levelling's first bench is.
pub mod PathStart
