pub mod Layering
pub mod Walking
pub mod Sweeping
pub mod Supporting
pub mod Failing
pub mod Banking
