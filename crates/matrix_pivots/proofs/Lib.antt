pub mod Search
pub mod AllPivots
pub mod Bits
pub mod Choice
pub mod Front
pub mod NextPair
pub mod Unique
