pub mod Honors
