-- Refusals of a table's form.
pub mod Formal
-- Accepted answers.
pub mod Accepted
