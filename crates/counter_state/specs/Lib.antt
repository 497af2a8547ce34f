-- What the counter program keeps.
pub mod State
