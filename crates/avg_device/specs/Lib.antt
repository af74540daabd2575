pub mod Leap
pub mod Tick
