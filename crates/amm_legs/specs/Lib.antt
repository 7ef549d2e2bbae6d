pub mod Portions
pub mod Progress
