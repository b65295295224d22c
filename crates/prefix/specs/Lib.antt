pub mod Prefix
pub mod Meant
pub mod Laws
pub mod Steps
pub mod Text
