-- What the pass promises.
pub mod Passing
