pub mod Number
pub mod Line
pub mod Room
pub mod Examples
