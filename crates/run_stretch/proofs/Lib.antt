pub mod JoinedLaws
pub mod KeptLaws
pub mod ReadingLaws
pub mod StretchLaws
pub mod WatchingLaws
