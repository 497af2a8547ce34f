-- What the pass over the records promises.
pub mod Kinds
