pub mod LevelEquality
