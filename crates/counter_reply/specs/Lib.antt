-- What the counter program's code answers to a line.
pub mod Replies
