pub mod Feeding
pub mod Meaning
