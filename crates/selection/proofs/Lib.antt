pub mod Recursions
pub mod Best
