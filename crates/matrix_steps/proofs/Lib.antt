pub mod Value
pub mod Next
pub mod LinesAsked
pub mod RowsOf
pub mod Moving
pub mod Short
pub mod Unique
