pub mod Melds
pub mod Standard
