pub mod Measurement
pub mod Measured
