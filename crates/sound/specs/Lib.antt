pub mod Noise
pub mod Pulse
pub mod State
pub mod Interpolation
pub mod Sample
pub mod Targets
pub mod Laws
