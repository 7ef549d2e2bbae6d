pub mod Gifts
pub mod Middles
pub mod Ceilings
pub mod Steps
pub mod Law
