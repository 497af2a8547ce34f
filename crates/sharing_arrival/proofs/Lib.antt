-- The board with the new job; the job taken in, and the path handed along.
pub mod Arriving
pub mod TakingIn
