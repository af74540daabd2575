pub mod Bytes
pub mod CommonBits
pub mod Modes
pub mod StatusLemmas
pub mod Sums
