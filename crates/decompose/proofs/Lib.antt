pub mod Words
pub mod Places
pub mod Turns
