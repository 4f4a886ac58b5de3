pub mod NodeSets
pub mod Diagrams
pub mod Layers
pub mod Ways
pub mod Checks
pub mod Owed
