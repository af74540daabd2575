pub mod Due
pub mod Grammar
pub mod Ports
pub mod Tape
pub mod TapeText
pub mod Texts
