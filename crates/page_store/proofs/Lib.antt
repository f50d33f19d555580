pub mod GateLaws
pub mod Opening
pub mod PageLaws
pub mod PairLaws
pub mod Refilling
pub mod StoreLaws
pub mod Storing
pub mod WordLaws
