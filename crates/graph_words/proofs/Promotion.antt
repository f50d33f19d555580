-- The records of a promotion.
pub mod Alike
pub mod Bytes
pub mod Fix
pub mod Follow
pub mod Nothing
pub mod Records
pub mod Seal
pub mod Sealed
