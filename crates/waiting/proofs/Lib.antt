pub mod Changing
pub mod Measuring
pub mod Ringing
pub mod Queuing
pub mod Marking
pub mod Classing
