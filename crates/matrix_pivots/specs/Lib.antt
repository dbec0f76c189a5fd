pub mod Pivot
pub mod Columns
pub mod NextPair
