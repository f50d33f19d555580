pub mod Plan
pub mod Super
