pub mod Extremes
pub mod Walk
pub mod Cut
pub mod Pels
