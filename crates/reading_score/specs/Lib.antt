pub mod Score
pub mod Preferred
