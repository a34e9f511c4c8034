pub mod Vectors
pub mod Preference
