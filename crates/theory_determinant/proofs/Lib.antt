pub mod Linear
pub mod Alternating
pub mod Expansion
pub mod Sign
pub mod Degree
pub mod Rows
pub mod Stage
