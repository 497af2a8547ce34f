-- Heads copied to an array.
pub mod Copying
