pub mod Int
pub mod Values
