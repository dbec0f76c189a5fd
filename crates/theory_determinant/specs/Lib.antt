pub mod Determinant
pub mod Stage
