pub mod Search
pub mod Lowest
pub mod Weights
pub mod Sums
pub mod Tests
pub mod Records
pub mod Examples
