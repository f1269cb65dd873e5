pub mod Rates
pub mod Plain
pub mod PlainRate
pub mod Checks
pub mod Theorems
pub mod Answers
