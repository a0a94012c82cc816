pub mod Laws
pub mod WrittenBytes
pub mod RoundTrip
pub mod Held
