pub mod FlatOf
pub mod Json
pub mod Reading
pub mod NoFloat
