pub mod Groups
pub mod Roots
pub mod Steps
