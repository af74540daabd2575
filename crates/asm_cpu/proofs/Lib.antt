pub mod Encodings
pub mod Names
pub mod Operands
pub mod Ranges
