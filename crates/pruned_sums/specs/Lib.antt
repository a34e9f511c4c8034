pub mod Area
pub mod Filling
