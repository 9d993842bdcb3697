pub mod Least
pub mod Calls
pub mod Laws
pub mod Sources
