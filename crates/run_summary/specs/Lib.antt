pub mod Counter
pub mod CounterLaws
pub mod Sizes
pub mod SoakText
pub mod Summary
