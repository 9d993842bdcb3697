pub mod Win
pub mod Refusals
