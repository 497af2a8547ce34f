-- What is known of a chain where it is spliced.
pub mod Splices
