pub mod row_order
pub mod second_step
pub mod monic
pub mod Finished
