pub mod Beside
pub mod Counts
pub mod Handed
