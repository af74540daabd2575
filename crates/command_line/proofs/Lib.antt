pub mod Arguments
pub mod ClockLaws
pub mod Listed
pub mod ReadOptions
