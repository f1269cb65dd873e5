pub mod Ranges
pub mod Orders
pub mod Held
