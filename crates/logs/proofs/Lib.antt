pub mod OwnRows
pub mod LogWords
pub mod OwnFits
pub mod OwnLog
