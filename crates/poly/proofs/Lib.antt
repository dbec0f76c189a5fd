pub mod Ending
pub mod Holds
pub mod Unique
