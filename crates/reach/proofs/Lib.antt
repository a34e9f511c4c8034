pub mod Candidates
pub mod Keys
pub mod Choice
