pub mod Front
pub mod Popov
pub mod Unique
