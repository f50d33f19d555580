pub mod Collecting
pub mod Leaves
pub mod Memory
pub mod Refusals
pub mod Replies
