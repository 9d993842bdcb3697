pub mod Keeps
pub mod Melds
pub mod Readings
pub mod Records
pub mod Counts
