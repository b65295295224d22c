pub mod Meant
pub mod Facts
