pub mod BoardFrames
pub mod BoardProfile
pub mod Framing
pub mod FramingLaws
pub mod MarkLaws
pub mod PartLaws
pub mod Profiling
pub mod ProfilingLaws
