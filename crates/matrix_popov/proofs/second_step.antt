pub mod Searching
pub mod Excesses
pub mod Runs
pub mod Step
pub mod Clearing
