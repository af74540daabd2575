pub mod OneBoard
pub mod OneReading
pub mod Tables
