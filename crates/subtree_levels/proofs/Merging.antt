pub mod Appending
pub mod Bounds
pub mod InPlace
pub mod Kept
pub mod LevelByLevel
pub mod LevelMerge
pub mod Prepending
pub mod Sides
