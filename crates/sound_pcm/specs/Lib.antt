pub mod Grouping
pub mod Mixing
pub mod Samples
pub mod Sooner
pub mod WholeRun
