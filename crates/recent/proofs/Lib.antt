pub mod Held
pub mod Travels
