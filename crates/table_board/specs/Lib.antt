-- What the functions promise.
pub mod BoardView
