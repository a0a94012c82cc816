pub mod Few
pub mod Matrices
