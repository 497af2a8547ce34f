-- What is asked of loads.
pub mod HeaviestLoad
pub mod LoadRanks
