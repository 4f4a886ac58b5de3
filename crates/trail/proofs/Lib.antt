pub mod Stacked
pub mod Listing
pub mod Members
pub mod Admitting
pub mod Noting
pub mod Restoring
pub mod Storing
pub mod Widening
