-- Each board is as document 01 says.
pub mod Boards
