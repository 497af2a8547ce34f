-- Lists of calls that the code answered, by the functions' own contracts.
pub mod Done
pub mod CCalls
pub mod NotedEach
