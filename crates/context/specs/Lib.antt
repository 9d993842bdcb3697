pub mod Context
pub mod Named
