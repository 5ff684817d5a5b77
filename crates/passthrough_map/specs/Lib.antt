pub mod FiniteMap
pub mod MapLends
pub mod PassthroughHasher
pub mod Entry
