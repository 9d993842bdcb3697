pub mod Packed
pub mod Pairs
