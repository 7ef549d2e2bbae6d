pub mod Places
pub mod Sales
