-- The walk to a gap in a chain, the link there written anew, and the chains after a change.
pub mod ToGap
pub mod Linking
pub mod Chained
pub mod Spliced
