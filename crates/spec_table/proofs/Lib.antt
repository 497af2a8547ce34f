-- What is proved of boards and their tables.
pub mod BenchesNamed
pub mod Named
pub mod Loads
pub mod CountedBenches
pub mod Held
pub mod Limits
pub mod Words
pub mod Places
pub mod ChainJobs
pub mod Clauses
pub mod Sound
pub mod ChainEnds
pub mod Layouts
pub mod Encode
pub mod AnyOrder
pub mod RisingChains
pub mod Splicing
