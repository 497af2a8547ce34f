-- The search, step by step.
pub mod Queue
pub mod Steps
pub mod OnBoard
