pub mod Calls
pub mod Repaid
