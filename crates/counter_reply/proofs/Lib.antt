-- What the replies to lines are.
pub mod Replying
