pub mod Below
pub mod Questions
pub mod Suits
pub mod Gates
pub mod Examples
pub mod Rules
pub mod Totals
pub mod NineGates
