mod Requoted
mod Router
mod Steps
mod OneMarket
mod Agreeing
pub mod Fixed
