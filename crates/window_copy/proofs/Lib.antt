pub mod Half
pub mod Grey
pub mod Window
