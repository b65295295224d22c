pub mod Limits
pub mod RoundTrip
pub mod Reprinted
