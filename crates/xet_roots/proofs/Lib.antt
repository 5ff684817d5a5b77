pub mod Grouping
pub mod Lists
pub mod Results
pub mod Roots
