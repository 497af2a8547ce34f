-- What the form check answers.
pub mod Answer
