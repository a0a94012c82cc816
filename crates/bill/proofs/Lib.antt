pub mod Lines
pub mod Agrees
pub mod Streamed
