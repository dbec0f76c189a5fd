pub mod Below
pub mod Quotient
