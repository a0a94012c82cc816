pub mod EntryWords
pub mod Lent
pub mod Slots
pub mod Answers
