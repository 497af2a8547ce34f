-- What a record is, and what the pass over the records has seen.
pub mod KindOfRecord
pub mod CountedRecords
