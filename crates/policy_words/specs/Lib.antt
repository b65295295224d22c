pub mod Words
pub mod Meant
