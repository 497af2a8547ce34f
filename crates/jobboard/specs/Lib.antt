-- What a C call returns.
pub mod Desk
