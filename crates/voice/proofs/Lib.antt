pub mod Entries
pub mod Numbers
pub mod Places
pub mod Pulses
pub mod Signed
pub mod Valid
