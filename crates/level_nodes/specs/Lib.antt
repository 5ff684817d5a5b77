pub mod FlatLevels
pub mod Level
pub mod NodeJson
pub mod Steps
pub use Rattle.xet_roots.specs.Groups
