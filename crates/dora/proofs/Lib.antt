pub mod Turns
pub mod Rounds
pub mod Counting
pub mod Renamed
pub mod Examples
