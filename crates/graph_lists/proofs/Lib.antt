-- Lists by key, keys of benches.
pub mod Listing
pub mod Keying
