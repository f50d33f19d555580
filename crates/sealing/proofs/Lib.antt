mod Addresses
mod Fields
mod Found
mod Inserted
