-- What the tally's counts and notes are in document 01's words.
pub mod Counts
