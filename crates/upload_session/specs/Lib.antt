pub mod Gaps
pub mod Hashes
pub mod Session
pub mod Sizes
pub mod Steps
pub mod Subtrees
