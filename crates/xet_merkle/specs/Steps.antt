pub mod FlatMaking
pub mod SubtreeMerging
