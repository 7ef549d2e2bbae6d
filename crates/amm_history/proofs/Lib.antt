mod Readings
mod Drifting
mod Moves
mod Lines
mod Found
mod Chains
mod Places
pub mod Told
