pub mod Lines
pub mod LineSays
pub mod Output
pub mod PairText
pub mod Steps
