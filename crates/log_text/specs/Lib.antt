pub mod Lines
pub mod LogText
pub mod Merging
pub mod RecordBytes
