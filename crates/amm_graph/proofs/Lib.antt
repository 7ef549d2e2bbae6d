pub mod Sides
pub mod Walks
pub mod Lists
pub mod AllPaths
pub mod Markets
pub mod Ledgers
