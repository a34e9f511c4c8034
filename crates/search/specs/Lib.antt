pub mod Matchings
pub mod Target
pub mod SearchResult
pub mod Exhaustive
