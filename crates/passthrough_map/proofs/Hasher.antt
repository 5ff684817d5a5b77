-- The hasher that returns numbers unchanged.
pub mod Overwriting
