pub mod Reach
pub mod Keys
