-- Records as jobs.
pub mod RecordsAsBoard
