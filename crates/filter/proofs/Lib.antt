pub mod Elements
pub mod Lattice
pub mod Ranges
