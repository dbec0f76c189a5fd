pub mod Weights
pub mod PutInOrder
