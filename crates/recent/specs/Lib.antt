pub mod Recent
pub mod Counting
