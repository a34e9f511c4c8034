pub mod Keys
pub mod Reached
pub mod Copies
pub mod Strips
pub mod Ready
pub mod Answer
pub mod Laws
