pub mod Ahead
pub mod Spelled
pub mod Rows
pub mod Baskets
pub mod Kinds
pub mod Front
pub mod Taken
pub mod Loans
