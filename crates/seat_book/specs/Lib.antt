pub mod Points
pub mod Book
pub mod Refusals
pub mod History
