pub mod Plain
pub mod Writing
pub mod Reading
pub mod Fields
pub mod RoundTrip
pub mod Earlier
