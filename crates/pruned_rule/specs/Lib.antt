pub mod Distance
pub mod Sift
pub mod Prune
pub mod Spots
