-- Definitions that only the contracts of private functions use.
pub mod Blocks
pub mod LaneRows
pub mod Lanes
pub mod Messages
pub mod Rows
pub mod Transposition
pub mod Tree
