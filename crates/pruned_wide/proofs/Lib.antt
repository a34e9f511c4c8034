pub mod Sums
pub mod Rows
pub mod Blocks
pub mod Levels
