-- What is proved of paths that were found: followed back, and handed over.
pub mod Following
pub mod HandingAlong
