pub mod Countdown
pub mod Prescaler
