pub mod Buffer
pub mod Pick
