pub mod Excess
pub mod Removing
