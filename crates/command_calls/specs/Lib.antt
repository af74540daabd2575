pub mod Answers
pub mod Bytes
pub mod Counted
pub mod Faults
pub mod Performed
pub mod Requests
pub mod Shelves
