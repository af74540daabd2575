pub mod BetweenLaws
mod FitLaws
pub mod GatherLaws
mod GroupLaws
pub mod LevelLaws
pub mod MixLaws
pub mod PartLaws
pub mod RunLaws
