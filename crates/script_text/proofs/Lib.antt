mod Calls
mod Digits
pub mod LineLaws
mod Lines
pub mod LoadLaws
pub mod PrintedLaws
pub mod ScriptLaws
