pub mod Checks
pub mod Entries
pub mod InOrder
pub mod Parts
pub mod Pieces
pub mod Reading
