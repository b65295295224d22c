pub mod Header
pub mod Open
pub mod Message
pub mod Meant
