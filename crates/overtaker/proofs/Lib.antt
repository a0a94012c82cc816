pub mod NextLine
pub mod Answers
