pub mod Reading
pub mod Digits
pub mod Printing
pub mod Lines
