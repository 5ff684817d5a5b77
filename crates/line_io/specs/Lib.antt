pub mod Lines
pub mod Faults
pub mod Answers
pub mod LineAndData
pub mod Requests
pub mod Steps
