pub mod Mnemonics
pub mod Operands
pub mod Modes
pub mod Statements
pub mod Encodings
