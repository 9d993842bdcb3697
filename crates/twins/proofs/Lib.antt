pub mod Renamed
pub mod Agreed
