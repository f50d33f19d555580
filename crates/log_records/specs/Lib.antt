pub mod Copied
pub mod Copies
pub mod CopiesCode
pub mod Record
