pub mod Rules
pub mod Names
pub mod Lawful
pub mod Calls
pub mod Faults
pub mod Pairs
pub mod PairsOwed
