pub mod Answer
pub mod Flow
