pub mod Log
pub mod LogCause
pub mod LogRoom
pub mod LogState
pub mod Reader
