-- A finite map, and the entry of a key in it.
pub mod Entry
pub mod FiniteMap
pub mod StoredKeys
