pub mod Types
pub mod Commands
pub mod Accept
pub mod Laws
