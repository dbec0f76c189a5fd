pub mod Greatest
pub mod Verdicts
