pub mod Counts
pub mod Printing
