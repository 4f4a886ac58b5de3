pub mod Settling
pub mod Propagation
pub mod States
pub mod Loop
