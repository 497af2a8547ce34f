-- What the lines promise.
pub mod WrittenLines
