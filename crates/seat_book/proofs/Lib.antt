pub mod Magnitude
pub mod Rooms
pub mod Seats
pub mod Integers
pub mod Kept
pub mod Histories
pub mod Examples
