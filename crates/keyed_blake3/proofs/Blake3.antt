-- What the proofs of keyed BLAKE3 share. Each file is about one step from the blocks of a message to its root.
pub mod Absorbing
pub mod Blocks
pub mod ByBlocks
pub mod Finishing
pub mod FourRows
pub mod InStep
pub mod LaneBytes
pub mod Lanes
pub mod Merging
pub mod Messages
pub mod Rows
pub mod SharedRows
pub mod Slots
pub mod Subtrees
pub mod Turned
pub mod Waiting
