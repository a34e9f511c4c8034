pub mod Full
pub mod Rows
pub mod Columns
