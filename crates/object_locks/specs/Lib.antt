pub mod Conflict
pub mod Holder
pub mod Holdings
pub mod Table
