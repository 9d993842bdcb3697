pub mod Meld
pub mod Named
pub mod Renamed
