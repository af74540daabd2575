pub mod Bounds
pub mod Events
pub mod Extents
pub mod Frames
pub mod InFrames
