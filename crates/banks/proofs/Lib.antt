pub mod Calling
pub mod Faulting
pub mod Masking
pub mod Naming
pub mod Narrowing
pub mod Planning
pub mod Showing
