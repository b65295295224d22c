pub mod HasFault
pub mod RoundTrip
pub mod Names
