pub mod Majority
pub mod Tally
