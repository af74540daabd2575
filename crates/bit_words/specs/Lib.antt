pub mod Bits
pub mod Residues
