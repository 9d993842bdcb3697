pub mod Rules
pub mod Refusals
