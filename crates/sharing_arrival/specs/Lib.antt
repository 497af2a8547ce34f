-- What an arrival finds and leaves.
pub mod ArrivalResult
