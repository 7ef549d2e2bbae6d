pub mod Searching
pub mod Products
pub mod Observed
