pub mod Check
pub mod Fields
pub mod Reading
pub mod StateBytes
pub mod Texts
