mod Addresses
pub mod HolderLaws
pub mod HoldingOrder
pub mod Moved
pub mod Orders
pub mod Released
pub mod Sets
pub mod Tables
