pub mod Meant
pub mod Messages
