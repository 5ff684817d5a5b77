pub mod MergeTree
pub mod PlainRange
pub mod Ranges
pub mod Steps
pub use Rattle.xet_roots.specs.Groups
pub use Rattle.xet_roots.specs.Roots
