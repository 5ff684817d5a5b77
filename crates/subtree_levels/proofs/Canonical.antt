pub mod Bounds
pub mod Collapsing
pub mod FinalHash
pub mod OneSubtree
pub mod Splits
