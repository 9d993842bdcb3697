pub mod Dora
