-- Refusals of what each change asks, and the changes' contracts as demand 3 sees them.
pub mod ChangeOutcomes
pub mod Contracts
