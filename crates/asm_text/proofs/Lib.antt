pub mod LinePieces
pub mod Parting
pub mod Standing
pub mod TextLines
pub mod Numerals
