pub mod Adjacent
pub mod Bracketing
pub mod Joining
