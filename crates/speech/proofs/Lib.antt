pub mod Boundaries
pub mod Kept
