pub mod Row
pub mod Played
