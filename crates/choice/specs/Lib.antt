pub mod Choice
pub mod Standing
