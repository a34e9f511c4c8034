pub mod FourStep
