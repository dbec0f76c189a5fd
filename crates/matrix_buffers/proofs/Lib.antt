pub mod Written
pub mod Added
pub mod Scaled
pub mod Exchanged
pub mod Diagonal
pub mod Bounds
pub mod CellByCell
pub mod Unique
