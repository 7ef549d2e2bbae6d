pub mod WellSpelled
pub mod Writable
