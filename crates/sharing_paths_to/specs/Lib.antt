-- What the search for the closing's path knows.
pub mod ClosingSearch
