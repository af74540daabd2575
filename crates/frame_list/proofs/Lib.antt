mod ExtentLaws
pub mod FrameLaws
pub mod InFrameLaws
mod TakeLaws
pub mod WholeLaws
