pub mod DoubleWind
pub mod Bounds
pub mod Figures
pub mod Examples
pub mod AnyIndicators
