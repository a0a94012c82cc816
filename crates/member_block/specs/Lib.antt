pub mod Layout
pub mod Needs
pub mod Results
