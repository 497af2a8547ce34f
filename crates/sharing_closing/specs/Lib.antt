-- What a closing finds and leaves.
pub mod ClosingResult
