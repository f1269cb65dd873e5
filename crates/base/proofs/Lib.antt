pub mod Booleans
pub mod Faults
pub mod Filling
pub mod Range
pub mod Refused
pub mod Steps
pub mod Signed
