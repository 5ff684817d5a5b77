pub mod Room
pub mod Scan
pub mod Places
pub mod Digits
