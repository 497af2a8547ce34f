-- How the walks go (`ChainWalks`), and what they leave (`ChainLengths`).
pub mod ChainWalks
pub mod ChainLengths
