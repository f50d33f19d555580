pub mod Frame
pub mod Gates
pub mod OpenCause
pub mod Page
pub mod Reading
pub mod Refill
pub mod StoreState
