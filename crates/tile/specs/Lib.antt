pub mod Tile
pub mod Named
pub mod Renaming
pub mod Described
