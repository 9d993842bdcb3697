pub mod Places
pub mod Pick
pub mod Back
pub mod Sized
