pub mod LevelRules
