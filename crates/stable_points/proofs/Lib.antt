pub mod Lists
pub mod StablePoints
