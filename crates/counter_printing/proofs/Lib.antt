-- What is proved of written text.
pub mod WrittenText
