pub mod Session
pub mod Meant
pub mod Clocks
