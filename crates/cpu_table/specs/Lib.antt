pub mod Decoding
pub mod Opcodes
