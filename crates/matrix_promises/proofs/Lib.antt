pub mod Held
pub mod Tables
pub mod Alone
pub mod Unique
pub mod Demands
