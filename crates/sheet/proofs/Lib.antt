pub mod Closing
pub mod Heights
pub mod Moving
pub mod Touching
pub mod Narrowing
pub mod Settled
