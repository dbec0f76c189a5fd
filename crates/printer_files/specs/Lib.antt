pub mod Table
pub mod Input
