pub mod Fours
pub mod Laws
pub mod Examples
