pub mod Turns
pub mod Front
pub mod Listed
pub mod Measuring
