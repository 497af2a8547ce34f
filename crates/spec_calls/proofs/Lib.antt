-- What is proved of the calls.
pub mod Refusals
pub mod ChainOrder
pub mod Blanking
pub mod Tally
pub mod Stops
pub mod JobBook
pub mod Questions
pub mod Sheets
pub mod Pairs
pub mod Outcomes
pub mod ChangedTables
pub mod Refused
pub mod Results
pub mod Demand3
pub mod TallyRun
pub mod Instance
