pub mod Answers
pub mod Beside
