pub mod Numbers
pub mod Exported
pub mod Fields
pub mod Panel
pub mod Written
pub mod Examples
