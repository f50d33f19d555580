pub mod Numbers
pub mod PrintedScript
