pub mod ListRefusals
pub mod Waiting
pub mod Turns
pub mod Rings
pub mod Oldest
pub mod Sets
pub mod Classes
pub mod Owed
