-- What a walk along a chain promises.
pub mod Walking
