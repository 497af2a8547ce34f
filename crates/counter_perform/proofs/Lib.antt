-- What the replies to commands are.
pub mod Performing
