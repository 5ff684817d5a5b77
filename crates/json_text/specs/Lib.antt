pub mod JsonText
pub mod Nesting
