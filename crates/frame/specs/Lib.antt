pub mod Pictures
pub mod Grid
pub mod Candidates
