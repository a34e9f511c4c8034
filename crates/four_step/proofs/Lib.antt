pub mod FourStep
pub mod Unclipped
pub mod Steps
