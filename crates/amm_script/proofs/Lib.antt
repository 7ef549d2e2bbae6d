pub mod Laws
pub mod Steps
pub mod Scripts
pub mod Settlements
