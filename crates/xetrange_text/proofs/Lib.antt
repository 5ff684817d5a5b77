pub mod Depth
pub mod OneLine
pub mod MergedRanges
pub mod Faults
pub mod Words
pub mod Verifying
pub mod Cutting
