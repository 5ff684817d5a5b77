pub mod Kept
pub mod Reader
pub mod Steps
