-- What a record says to a walk, and the walk record by record.
pub mod AtRecord
pub mod AlongChain
