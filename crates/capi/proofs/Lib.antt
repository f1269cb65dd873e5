pub mod Settling
pub mod Valid
