pub mod Deepest
pub mod Written
