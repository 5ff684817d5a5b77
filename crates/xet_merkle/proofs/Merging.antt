pub mod Levels
pub mod Ranges
