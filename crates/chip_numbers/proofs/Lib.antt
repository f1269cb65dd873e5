pub mod Single
pub mod Places
pub mod Pasting
pub mod Theorems
pub mod Read
