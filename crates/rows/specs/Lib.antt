pub mod Choices
pub mod Refusals
pub mod RowRefusals
pub mod Printing
pub mod Words
