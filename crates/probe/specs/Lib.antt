pub mod Probe
pub mod BestSoFar
