pub mod Listing
pub mod FirstPass
pub mod Refusals
