pub mod Refusals
pub mod Paid
pub mod Won
