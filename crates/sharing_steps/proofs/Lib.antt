-- Jobs as steps, and a board with one job written anew.
pub mod AsSteps
pub mod JobWritten
