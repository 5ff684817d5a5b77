-- The proof of a range shows the hashes of its list, and there is one.
pub mod Climb
pub mod Exists
pub mod OneProof
pub mod Proved
