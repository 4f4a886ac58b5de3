pub mod Differences
pub mod Partners
pub mod Checks
pub mod Owed
