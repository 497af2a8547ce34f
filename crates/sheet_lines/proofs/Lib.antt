-- What is proved of lists of jobs, and of the lines that are written from them.
pub mod ListedJobs
pub mod OneLine
pub mod BenchLines
pub mod AllLines
