pub mod Wait
pub mod Concealed
