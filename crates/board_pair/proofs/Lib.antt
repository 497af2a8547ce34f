-- The question for a job between two benches, from its walks to its contract.
pub mod AskingPair
pub mod Contracts
