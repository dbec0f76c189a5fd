pub mod Factor
pub mod Asked
