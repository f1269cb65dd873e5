pub mod Frames
pub mod Holding
pub mod Laws
pub mod Ranges
pub mod Samples
pub mod Taps
pub mod Validity
pub mod Zipped
