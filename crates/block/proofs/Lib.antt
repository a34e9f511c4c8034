pub mod Own
pub mod Unclipped
