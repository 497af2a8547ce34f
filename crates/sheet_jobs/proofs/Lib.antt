-- How the lists come about.
pub mod JobListing
