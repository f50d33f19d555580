pub mod AddressLaws
pub mod GroupLaws
pub mod PageLaws
pub mod TableLaws
pub mod WaitingLaws
