-- A job's record as the code holds it.
pub mod Records
