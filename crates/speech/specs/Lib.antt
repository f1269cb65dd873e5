pub mod Types
pub mod Advance
pub mod Laws
