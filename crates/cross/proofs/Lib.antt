pub mod Cross
pub mod Passes
