pub mod Winds
pub mod Shown
pub mod Table
