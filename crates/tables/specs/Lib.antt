pub mod Tables
pub mod Lines
pub mod Checks
pub mod Owed
