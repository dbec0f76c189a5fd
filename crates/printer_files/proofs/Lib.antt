pub mod Unique
pub mod Accepted
