pub mod RoundTrip
pub mod Earlier
