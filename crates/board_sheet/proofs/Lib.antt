-- The sheet of a sound table, and the call's contract as demand 3 sees it.
pub mod AskingSheet
pub mod Contracts
