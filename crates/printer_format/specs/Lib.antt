pub mod Number
pub mod Line
pub mod File
pub mod Answer
pub mod keys
