-- Refusals of what each question asks, and the questions' contracts as demand 3 sees them.
pub mod Asking
pub mod Contracts
