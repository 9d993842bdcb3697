pub mod Laws
pub mod Bounds
pub mod LevelExamples
pub mod PaymentExamples
pub mod Rising
pub mod Shares
