pub mod Polynomial
pub mod Holds
pub mod residues
pub mod arithmetic
