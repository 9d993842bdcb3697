pub mod Places
pub mod Adding
pub mod Examples
