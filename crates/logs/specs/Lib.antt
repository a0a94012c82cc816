pub mod Log
pub mod OwnLog
