pub mod Types
pub mod Entries
pub mod Order
pub mod Counts
pub mod Parts
pub mod Laws
pub mod Theorems
pub mod Example
