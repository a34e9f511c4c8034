pub mod Reading
pub mod Tally
