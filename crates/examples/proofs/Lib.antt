pub mod Opened
pub mod Listing
pub mod Decisions
pub mod Computed
pub mod Open
pub mod Refusals
pub mod WExamples
pub mod Printer
