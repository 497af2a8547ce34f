-- What is read of a line.
pub mod Read
