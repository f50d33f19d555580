mod Calls
mod Empty
mod KeptEntries
mod Outside
mod PrintErrors
mod RefinementGraph
mod RefinementMemory
mod RefinementOpen
mod StepCore
mod Undamaged
mod Zeros
pub mod CausesLaws
pub mod Collects
pub mod CrashLaws
pub mod Ends
pub mod RefinementLeft
pub mod StepsLaws
