pub mod Neighbours
pub mod OpenRuns
