pub mod Outcomes
pub mod Winning
pub mod Refusals
pub mod Open
pub mod Whole
pub mod Rooms
pub mod Indicated
