pub mod Melds
pub mod Sorts
pub mod Sources
pub mod Renamed
pub mod Examples
