pub mod Hops
pub mod Ways
pub mod Markets
