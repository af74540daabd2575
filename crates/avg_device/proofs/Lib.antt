pub mod Leaps
pub mod ManyTicks
