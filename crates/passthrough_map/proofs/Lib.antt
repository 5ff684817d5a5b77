pub mod Hasher
pub mod Map
