pub mod Types
pub mod State
pub mod Validity
pub mod Write
pub mod Read
pub mod Step
pub mod Run
pub mod Laws
