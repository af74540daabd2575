pub mod LeapLaws
pub mod Moves
pub mod TableLaws
