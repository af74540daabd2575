pub mod Digits
pub mod Parting
