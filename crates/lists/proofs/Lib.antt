pub mod Functions
pub mod Looked
pub mod Parts
pub mod Pieces
pub mod Refusals
pub mod Numbered
