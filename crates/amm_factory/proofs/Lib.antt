pub mod Creation
pub mod Settings
pub mod Laters
