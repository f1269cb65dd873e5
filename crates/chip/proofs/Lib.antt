pub mod Ranges
pub mod BusCalls
pub mod Stepping
pub mod KeptValid
pub mod Playing
pub mod SameKind
