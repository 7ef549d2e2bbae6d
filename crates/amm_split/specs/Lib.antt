pub mod Deliveries
pub mod Pairs
pub mod Shares
pub mod Sizes
