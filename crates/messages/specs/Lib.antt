pub mod Meaning
pub mod RoundTrip
