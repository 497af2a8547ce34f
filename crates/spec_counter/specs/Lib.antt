-- The counter program's lines, as in document 01. Nothing here is taken from code.
pub mod Counter
pub mod Stream
