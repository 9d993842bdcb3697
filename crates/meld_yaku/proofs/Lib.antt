pub mod Otherwise
pub mod Lines
pub mod Renamed
pub mod Few
pub mod Examples
