pub mod Answers
pub mod Lines
pub mod Numbers
pub mod Pieces
pub mod Spans
pub mod Texts
pub mod Tokens
