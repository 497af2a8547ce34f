-- Paths, the rules of the sharing and demand 2, in the order of document 01; and what a search is to find. Nothing here
-- is taken from code.
pub mod Paths
pub mod Sharing
pub mod Demand2
pub mod Searches
