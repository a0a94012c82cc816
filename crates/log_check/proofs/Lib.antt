pub mod Values
pub mod RowTests
pub mod Remembered
pub mod Verdict
