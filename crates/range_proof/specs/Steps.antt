pub mod Equality
pub mod Opening
pub mod Places
pub mod Trees
