-- Each event leaves a valid core.
pub mod Events
pub mod Flush
pub mod Forms
pub mod Goes
pub mod Granted
pub mod GrantedEnds
pub mod GrantedWrites
pub mod Reserved
pub mod Sound
pub mod Told
pub mod TwoPhase
