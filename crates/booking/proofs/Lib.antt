pub mod Seats
pub mod Laws
pub mod Refusals
pub mod Unread
