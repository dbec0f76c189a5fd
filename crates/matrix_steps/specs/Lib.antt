pub mod multiple
pub mod Asked
pub mod Subtraction
pub mod Next
