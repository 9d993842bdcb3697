pub mod Orders
pub mod Renamings
pub mod Described
pub mod Tiles
pub mod Examples
