pub mod Addresses
pub mod Collection
pub mod CollectionCode
pub mod Copying
pub mod PageAddresses
pub mod PageTable
pub mod Spaces
