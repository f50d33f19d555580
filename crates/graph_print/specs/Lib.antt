pub mod FromRead
pub mod Numbered
pub mod Numbering
pub mod Order
pub mod PrintFailure
pub mod Printed
