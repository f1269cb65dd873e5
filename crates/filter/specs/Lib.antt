pub mod Ranges
pub mod Filter
pub mod Stages
