-- Chains as lists of jobs, chains made anew.
pub mod ChainView
pub mod Rebuilding
