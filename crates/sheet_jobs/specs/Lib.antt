-- What the lists promise.
pub mod JobLists
