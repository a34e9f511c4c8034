pub mod Probe
pub mod Looks
