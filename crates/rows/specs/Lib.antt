pub mod Meaning
pub mod Tested
