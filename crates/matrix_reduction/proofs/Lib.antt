pub mod Loop
pub mod Alone
pub mod Transforms
pub mod NonzeroRows
