pub mod Doubled
pub mod Kinds
