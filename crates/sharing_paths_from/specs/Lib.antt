-- What the search for the arrival's path knows.
pub mod ArrivalSearch
