-- Checked chunks are those of the file.
pub mod Descent
pub mod Checked
pub mod Shown
pub mod Reading
