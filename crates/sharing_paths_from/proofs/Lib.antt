-- The search for the arrival's path: the first level, the lightest of a level, the best so far, the levels, and the path.
pub mod JoinedBoard
pub mod Beginning
pub mod Choosing
pub mod BestEnd
pub mod Levels
pub mod Finding
