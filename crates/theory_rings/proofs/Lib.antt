pub mod Series
pub mod Polynomial
pub mod PrimeField
