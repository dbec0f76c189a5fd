pub mod Wrote
pub mod Asked
