-- What is proved of the input as it comes in.
pub mod Consuming
pub mod Whole
