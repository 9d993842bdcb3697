pub mod Tally
pub mod Names
pub mod Han
