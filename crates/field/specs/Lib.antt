pub mod Field
pub mod Filling
