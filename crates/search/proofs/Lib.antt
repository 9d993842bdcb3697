pub mod Digits
pub mod Left
pub mod Slots
pub mod Parts
pub mod Merged
