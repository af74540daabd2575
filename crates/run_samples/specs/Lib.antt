pub mod BoardSamples
pub mod Sampling
