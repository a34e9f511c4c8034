pub mod Half
pub mod Steps
