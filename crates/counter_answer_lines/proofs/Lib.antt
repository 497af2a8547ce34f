-- What is proved of the lines.
pub mod Lines
