pub mod Four
pub mod Asked
pub mod Seven
pub mod Cases
pub mod Short
