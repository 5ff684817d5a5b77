pub mod Lines
pub mod Pieces
pub mod Inputs
pub mod Answering
pub mod LineAndData
pub mod Requests
