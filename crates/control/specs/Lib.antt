pub mod Types
pub mod Device
pub mod State
pub mod Validity
pub mod Commands
pub mod Status
pub mod Laws
