-- What a root and a file hash commit to.
pub mod Texts
pub mod Messages
pub mod Levels
