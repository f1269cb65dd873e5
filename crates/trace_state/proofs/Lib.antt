pub mod Signed
pub mod Theorems
