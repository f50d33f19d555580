pub mod FollowsLaws
pub mod FrontLaws
mod CallLaws
mod CloseLaws
mod Lists
