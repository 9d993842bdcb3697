pub mod Fold
pub mod Order
pub mod Refusals
