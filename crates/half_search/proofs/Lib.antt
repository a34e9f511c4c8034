pub mod Best
pub mod Leading
pub mod Answer
