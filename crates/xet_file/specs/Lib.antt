pub mod Chunks
pub mod FileHasher
