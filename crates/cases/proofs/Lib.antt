pub mod Members
pub mod Tuples
pub mod Tested
