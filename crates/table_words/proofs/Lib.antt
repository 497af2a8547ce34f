-- What is proved of words.
pub mod Bytes
