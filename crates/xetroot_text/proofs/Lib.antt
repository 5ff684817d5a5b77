pub mod Placing
pub mod GoodLines
pub mod LineFaults
pub mod OneAnswer
pub mod InOrder
pub mod Separators
