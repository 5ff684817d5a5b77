pub mod Status
pub mod Words
pub mod Ranges
pub mod Proofs
pub mod Verifying
pub mod Answers
pub mod Cutting
pub mod Steps
