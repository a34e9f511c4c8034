pub mod Sifted
pub mod Rows
pub mod Added
pub mod Distances
