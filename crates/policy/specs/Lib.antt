pub mod Policy
pub mod Laws
pub mod Meant
pub mod Starts
