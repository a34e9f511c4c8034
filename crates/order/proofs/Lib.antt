pub mod Flat
pub mod Order
