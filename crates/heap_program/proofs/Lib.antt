mod AgainImage
pub mod Behind
pub mod Causes
mod Collections
pub mod CommandLaws
pub mod CoreSteps
pub mod Counts
pub mod FirstStop
pub mod ImageLaws
pub mod Lines
pub mod Limits
mod LoadRuns
mod RoundsLaws
pub mod NextRun
mod PlayAborts
pub mod PlayCore
mod PlayEnding
mod PlayEnds
pub mod PlayEvent
mod PlayFaults
pub mod PlayFuse
pub mod PlayLaws
mod PlayLoop
pub mod PlayOpen
pub mod PlaysLaws
mod PlayPrints
pub mod Playable
pub mod PrintRecovered
pub mod PrintedImage
pub mod Ready
pub mod RefusalLaws
pub mod Reopened
pub mod RunLaws
pub mod Statuses
pub mod StepsLaws
pub mod Unfaulted
pub mod WordFaults
pub mod Written
