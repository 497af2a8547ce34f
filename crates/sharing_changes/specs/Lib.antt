-- What a change of a sound table leaves, whichever of the two it is.
pub mod TaskResult
