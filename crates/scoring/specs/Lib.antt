pub mod Level
pub mod Payment
pub mod Payers
pub mod Settled
