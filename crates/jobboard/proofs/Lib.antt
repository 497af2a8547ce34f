-- What the C calls report.
pub mod Fits
pub mod Reports
pub mod Contracts
