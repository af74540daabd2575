pub mod BusCycleLemmas
pub mod EndLemmas
pub mod JamLemmas
pub mod LengthLemmas
pub mod PlaceLemmas
pub mod ReplayLemmas
pub mod ProcessorRange
