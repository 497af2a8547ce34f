-- What is proved of numbers as text.
pub mod Numbers
