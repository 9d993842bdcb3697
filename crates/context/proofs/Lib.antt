pub mod Range
pub mod Renamed
pub mod Shown
pub mod Examples
