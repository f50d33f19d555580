pub mod Line
pub mod Load
pub mod Loading
pub mod Number
pub mod Printed
pub mod Reader
pub mod Script
