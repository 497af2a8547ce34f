-- The lines that the counter program prints.
pub mod AnswerLines
