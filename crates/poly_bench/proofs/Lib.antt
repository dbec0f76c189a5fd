mod Rounds
mod Answers
pub mod Unique
