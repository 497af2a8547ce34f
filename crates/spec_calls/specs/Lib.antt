-- Answers, calls, job book and tally, in the order of document 01. Nothing here is taken from code.
pub mod Answers
pub mod Calls
pub mod JobBook
pub mod Tally
