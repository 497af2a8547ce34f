-- Meeting undoes pushing, loads counted, the pass to its end; an encoded table's jobs are in turn.
pub mod Undoing
pub mod LoadCounts
pub mod Meeting
pub mod InTurn
