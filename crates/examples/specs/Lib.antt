pub mod Answers
pub mod Example
pub mod WExamples
pub mod Printer
