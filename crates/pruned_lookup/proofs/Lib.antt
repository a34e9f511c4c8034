pub mod Sides
pub mod Places
pub mod Looked
pub mod Renewed
