-- What is proved of the pair question.
pub mod Walks
pub mod Everything
pub mod Local
pub mod Readings
