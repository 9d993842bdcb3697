pub mod Otherwise
pub mod Renamed
pub mod Few
pub mod Laws
pub mod Examples
