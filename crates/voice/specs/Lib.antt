pub mod Layout
pub mod Check
pub mod Valid
pub mod Example
