pub mod Frames
pub mod Keys
pub mod Holders
pub mod Store
pub mod Inside
pub mod Seeking
