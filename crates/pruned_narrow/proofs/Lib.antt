pub mod Sums
pub mod Rows
pub mod Whole
pub mod Levels
pub mod Numbers
