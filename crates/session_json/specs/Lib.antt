pub mod Reading
pub mod SessionJson
pub mod Steps
