-- Demand 3 of the board's functions and of the C calls, and the tally's equality.
pub mod Done
pub mod CCalls
pub mod NotedEach
