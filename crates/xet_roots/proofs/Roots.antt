pub mod Digits
pub mod Making
pub mod OneRoot
pub mod Pieces
pub mod Placed
