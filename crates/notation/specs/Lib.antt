-- The definitions that the contracts cite.
pub mod Said
pub mod Shown
pub mod Table
