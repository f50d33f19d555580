-- A seal leaves a valid core.
pub mod Agrees
pub mod Bystander
pub mod Cases
pub mod Others
pub mod Plain
pub mod PlainOthers
pub mod Told
pub mod Within
pub mod WithinOthers
pub mod WithinTold
pub mod Words
