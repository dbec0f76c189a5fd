pub mod Term
pub mod RowOrder
pub mod DegreeOverPosition
pub mod Row
pub mod Lead
pub mod ReducedBasis
pub mod PolynomialMatrix
