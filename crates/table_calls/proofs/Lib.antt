pub mod Between
pub mod Answers
