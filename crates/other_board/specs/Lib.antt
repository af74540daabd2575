pub mod Beeper
