pub mod FollowLaws
pub mod WatchLaws
