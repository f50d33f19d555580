pub mod Active
pub mod Collects
pub mod Conflicts
pub mod Ended
pub mod Pause
pub mod Theorems
pub mod Unseen
pub mod Valid
