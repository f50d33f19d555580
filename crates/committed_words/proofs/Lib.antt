pub mod LaidOver
pub mod TakenBack
