pub mod OneMeaning
pub mod Reading
