pub mod Remaining
pub mod Slots
