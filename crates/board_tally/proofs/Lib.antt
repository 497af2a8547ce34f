-- Noting an answer, and tallies, answers and notes as machine values.
pub mod Noting
pub mod Machine
pub mod Contracts
