-- What is proved of the lines.
pub mod Counter
pub mod CounterRun
pub mod ListRoom
pub mod Stream
