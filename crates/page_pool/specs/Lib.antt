pub mod Calls
pub mod Holders
pub mod Pool
pub mod Slots
