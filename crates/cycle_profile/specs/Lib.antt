pub mod Charge
pub mod Counts
pub mod Profile
pub mod Text
pub mod Turns
