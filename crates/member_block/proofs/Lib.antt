pub mod Sizes
pub mod Begins
pub mod InOrder
pub mod Laws
