-- What the calls' answers are in document 01's words.
pub mod Answered
