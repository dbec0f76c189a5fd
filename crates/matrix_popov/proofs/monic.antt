pub mod OneRow
pub mod Dividing
