pub mod Causes
pub mod Endings
pub mod Outcome
pub mod PlainRun
pub mod Sources
pub mod Stages
pub mod RunReport
