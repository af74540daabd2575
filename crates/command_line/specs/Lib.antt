pub mod Clocks
pub mod CommandLine
pub mod CommandValue
pub mod CommandWords
pub mod Numbers
pub mod Settings
pub mod SettingsValue
pub mod Words
