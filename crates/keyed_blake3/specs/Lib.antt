pub mod Blake3
pub mod Blake3Hasher
pub mod Steps
