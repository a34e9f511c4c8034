pub mod Places
pub mod Turns
pub mod Bests
pub mod Reading
