pub mod Text
pub mod Lines
pub mod Address
pub mod Asked
pub mod Listing
pub mod Theorems
