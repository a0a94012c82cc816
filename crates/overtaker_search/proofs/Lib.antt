pub mod LineTaken
pub mod Stages
pub mod Searched
