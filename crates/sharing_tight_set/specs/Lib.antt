-- What a tight set's marks promise.
pub mod MarkedSets
