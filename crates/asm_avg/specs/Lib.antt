pub mod Statements
pub mod Operands
pub mod Language
pub mod ReadBack
pub mod Sources
