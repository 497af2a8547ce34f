-- What is proved of reading and writing.
pub mod Serving
