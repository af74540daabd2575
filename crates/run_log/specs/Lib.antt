pub mod Faults
pub mod LogParts
pub mod OneList
pub mod Slice
pub mod Slices
