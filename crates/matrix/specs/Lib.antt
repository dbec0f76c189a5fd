pub mod Asked
pub mod Call
pub mod Reduction
pub mod SingleStep
pub mod PopovForm
pub mod Determinant
