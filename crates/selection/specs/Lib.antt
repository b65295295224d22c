pub mod Intended
pub mod Laws
pub mod Meant
pub mod Steps
