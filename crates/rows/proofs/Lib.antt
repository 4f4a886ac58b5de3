pub mod Masks
pub mod Keeping
pub mod Wording
pub mod Refusing
