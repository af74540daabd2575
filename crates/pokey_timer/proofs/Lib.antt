pub mod Countdowns
pub mod Prescalers
