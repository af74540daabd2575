pub mod Draws
pub mod Putting
pub mod Roms
pub mod Tape
pub mod Words
