pub mod Fits
pub mod Ranks
pub mod Examples
pub mod Rooms
pub mod Counted
