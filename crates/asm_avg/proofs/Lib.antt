pub mod Accepted
pub mod CellLaws
pub mod Fields
pub mod ReadBackLaws
pub mod StatementLaws
pub mod Taken
pub mod Values
pub mod WordLaws
