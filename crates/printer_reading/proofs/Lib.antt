pub mod Digits
pub mod Filling
pub mod Storing
pub mod Unique
