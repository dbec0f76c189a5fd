pub mod Terms
pub mod Turns
pub mod Lines
pub mod Ones
pub mod Unique
