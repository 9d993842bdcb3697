pub mod Settlements
