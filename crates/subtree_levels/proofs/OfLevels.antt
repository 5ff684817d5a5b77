pub mod InPlace
pub mod Reading
pub mod Sides
