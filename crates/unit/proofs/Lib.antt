pub mod Standards
pub mod Passes
pub mod Answers
pub mod Special
pub mod Refusals
pub mod RefusalExamples
