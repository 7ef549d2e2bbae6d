pub mod NoRoute
pub mod Verdicts
