pub mod Chunks
pub mod MergedLines
