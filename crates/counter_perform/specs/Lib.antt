-- What the counter program's code replies to a command.
pub mod Performed
