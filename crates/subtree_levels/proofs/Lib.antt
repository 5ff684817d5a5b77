pub mod Canonical
pub mod Merging
pub mod OfLevels
pub mod Rules
