pub mod Alike
pub mod Impostors
pub mod Once
pub mod Places
pub mod Worked
