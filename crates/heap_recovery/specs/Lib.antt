pub mod At
pub mod Causes
pub mod Faults
pub mod Opens
pub mod Recovered
pub mod Replayed
