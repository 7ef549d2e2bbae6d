pub mod Legs
pub mod Places
pub mod Portions
pub mod Steps
