pub mod OnePool
pub mod Covered
pub mod Routes
pub mod Law
pub mod Steps
