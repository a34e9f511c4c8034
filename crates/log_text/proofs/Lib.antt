pub mod Blocks
pub mod Fits
pub mod Stills
