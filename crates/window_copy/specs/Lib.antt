pub mod Copy
pub mod Grey
