pub mod Answers
pub mod Bytes
pub mod Range
pub mod Refusals
pub mod Steps
pub mod Units
