pub mod FirstGroup
pub mod FirstGroups
pub mod OneCutting
