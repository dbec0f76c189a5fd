pub mod Change
pub mod Part
pub mod Last
pub mod Total
pub mod Skip
pub mod Grid
pub mod Permutation
pub mod Place
