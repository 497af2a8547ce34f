-- The board without the job, and the path handed along.
pub mod Closing
