pub mod Commands
pub mod Script
pub mod Breakpoints
pub mod Texts
