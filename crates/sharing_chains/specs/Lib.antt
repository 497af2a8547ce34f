-- What the copied chains promise.
pub mod StoredChains
