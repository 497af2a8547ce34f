-- What comes of a change.
pub mod Effects
