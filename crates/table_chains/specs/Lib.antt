-- What the functions promise, and how chains are made anew.
pub mod Chains
