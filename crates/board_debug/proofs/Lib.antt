mod BoardsLaws
mod DecodedLaws
mod ListedLaws
pub mod ListingLaws
pub mod OneRunLaws
pub mod SessionLaws
mod TextLaws
mod Turning
mod WatchLaws
