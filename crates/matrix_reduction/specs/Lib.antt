pub mod Asked
pub mod Advanced
pub mod NonzeroRows
