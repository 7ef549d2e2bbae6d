pub mod Codes
pub mod Commands
pub mod Service
