pub mod Series
pub mod PrimeField
