-- Copying.
pub mod Copying
