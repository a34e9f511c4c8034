pub mod Blocks
pub mod Laws
pub mod Flow
pub mod Levels
pub mod Steps
pub mod Closing
pub mod Rounds
pub mod Blank
