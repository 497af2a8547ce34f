-- A copy's board is the table's.
pub mod Copied
