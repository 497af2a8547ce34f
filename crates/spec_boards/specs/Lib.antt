-- Document 01's boards.
pub mod Boards
