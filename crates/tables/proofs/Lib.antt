pub mod Lent
pub mod Places
pub mod Numbers
pub mod Opened
