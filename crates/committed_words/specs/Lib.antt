pub mod Committed
pub mod LaidOver
