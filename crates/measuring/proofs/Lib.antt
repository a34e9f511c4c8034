pub mod Passing
pub mod Whole
