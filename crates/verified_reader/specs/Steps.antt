pub mod KeptChunks
pub mod Parts
