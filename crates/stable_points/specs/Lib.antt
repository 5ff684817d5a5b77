pub mod StablePoints
pub mod Steps
pub use Rattle.xet_roots.specs.Groups
