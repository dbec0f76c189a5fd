pub mod SignedProduct
pub mod LastColumn
mod FirstStage
mod FirstColumns
mod ZeroRow
mod Fronts
mod Turning
mod Beginning
mod Whole
