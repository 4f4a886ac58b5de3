pub mod States
pub mod Moves
pub mod Histories
pub mod Laws
