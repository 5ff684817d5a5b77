pub mod Building
pub mod LevelMerging
pub mod LevelSides
pub mod SubtreeEquality
