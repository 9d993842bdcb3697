pub mod Booking
pub mod Refusals
