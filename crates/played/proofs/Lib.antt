pub mod Fitting
pub mod Quick
pub mod Played
