pub mod Needs
pub mod Verdicts
