-- What is proved of text on a page and of numbers in columns.
pub mod Page
pub mod Columns
