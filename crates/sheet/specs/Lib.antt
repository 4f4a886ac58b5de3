pub mod Sheets
pub mod Memory
pub mod Closing
