pub mod Barrier
pub mod Ending
pub mod EngineState
pub mod NoCall
pub mod Refinement
pub mod Reserve
pub mod Seal
pub mod StepResult
