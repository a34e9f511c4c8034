pub mod Chains
pub mod Counting
pub mod Blocks
pub mod Probing
pub mod One
pub mod Closed
pub mod Holding
pub mod Promise
