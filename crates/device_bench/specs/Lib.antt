pub mod BoardLaws
pub mod Boards
pub mod Report
pub mod Tally
