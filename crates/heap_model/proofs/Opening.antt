-- The core that an opening gives.
pub mod Found
pub mod Held
pub mod Legal
pub mod Lists
pub mod New
pub mod OneMeaning
pub mod Opened
pub mod Rolled
pub mod Split
pub mod Told
