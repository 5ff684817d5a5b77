pub mod Candidates
pub mod CutChoice
pub mod Chosen
pub mod Cuts
pub mod Chunker
pub mod Gear
pub mod Pieces
pub mod Steps
