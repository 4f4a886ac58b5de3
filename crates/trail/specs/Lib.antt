pub mod Stacks
pub mod Strokes
pub mod Trails
pub mod Calls
pub mod Readings
