pub mod Cross
pub mod Numbers
pub mod Refusals
