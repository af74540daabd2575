pub mod DigitLaws
mod LineLaws
pub mod PieceLaws
