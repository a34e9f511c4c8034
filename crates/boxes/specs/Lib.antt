pub mod Boxes
pub mod Distances
pub mod Runs
