pub mod Breakdown
pub mod Flags
pub mod Decided
