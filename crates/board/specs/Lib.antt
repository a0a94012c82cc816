pub mod Calls
pub mod Interface
