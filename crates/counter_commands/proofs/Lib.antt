-- What is proved of a line's fields, and of a line that was read.
pub mod Fields
