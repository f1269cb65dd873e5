pub mod Due
pub mod Chain
pub mod Counting
pub mod Progress
pub mod Keeping
pub mod Answering
