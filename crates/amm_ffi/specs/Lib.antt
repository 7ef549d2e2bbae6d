pub mod Behind
pub mod Certificates
pub mod Progress
pub mod Sessions
pub mod Statuses
