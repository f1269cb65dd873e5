pub mod Form
pub mod Types
pub mod Schedule
pub mod Speech
pub mod Calls
