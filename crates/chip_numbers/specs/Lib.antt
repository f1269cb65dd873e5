pub mod Types
pub mod Numbers
pub mod Fields
pub mod Reading
pub mod Chips
pub mod Putting
pub mod Laws
