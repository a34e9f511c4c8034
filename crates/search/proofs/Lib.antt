pub mod Exhaustive
pub mod Counted
