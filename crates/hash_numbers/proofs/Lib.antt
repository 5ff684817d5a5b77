pub mod Entries
pub mod Finding
pub mod Numbers
pub mod Places
