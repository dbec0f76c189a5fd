pub mod Range
pub mod Reciprocal
pub mod Inverting
pub mod Trial
pub mod Reading
