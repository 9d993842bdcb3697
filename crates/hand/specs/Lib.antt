pub mod Counts
pub mod Named
pub mod Reading
pub mod Records
pub mod Readings
pub mod Weights
