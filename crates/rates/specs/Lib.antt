pub mod Rates
pub mod Form
pub mod Walks
pub mod Theorems
