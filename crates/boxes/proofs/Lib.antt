pub mod Box
pub mod Rooms
pub mod Walk
pub mod Pels
pub mod Squares
pub mod Whole
pub mod Filled
pub mod Runs
