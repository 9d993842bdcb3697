pub mod Lines
pub mod Peikou
pub mod Renamed
pub mod Laws
pub mod Examples
