pub mod Standing
pub mod Choosing
pub mod Pass
pub mod Examples
