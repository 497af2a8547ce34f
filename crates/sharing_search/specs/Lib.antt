-- What a search is, as far as it went.
pub mod Searching
